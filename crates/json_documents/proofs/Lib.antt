mod DataLemmas
