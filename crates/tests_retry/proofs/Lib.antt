pub mod SecondLemmas
