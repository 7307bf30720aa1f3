mod FiniteLemmas
