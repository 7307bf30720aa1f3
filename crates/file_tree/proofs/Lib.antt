mod TextSets
mod PathLemmas
mod WalkLemmas
mod ListingLemmas
mod FormLemmas
mod TemplateLemmas
mod WrittenLemmas
