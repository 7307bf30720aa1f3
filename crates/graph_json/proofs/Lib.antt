mod FloatFree
mod JsonLemmas
mod RisingRows
mod TextLemmas
