mod ToldLemmas
mod MadeLemmas
