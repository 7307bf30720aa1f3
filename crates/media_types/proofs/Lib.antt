mod MediaLemmas
mod DecodeLemmas
mod ContentTypeLemmas
