pub mod SecretLemmas
