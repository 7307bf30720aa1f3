mod InfoLemmas
