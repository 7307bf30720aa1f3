mod OnceLemmas
