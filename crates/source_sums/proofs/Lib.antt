mod HashedByOrder
mod HashedByText
mod HashedByVersion
