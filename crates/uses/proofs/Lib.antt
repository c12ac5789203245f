mod PermitsLemmas
