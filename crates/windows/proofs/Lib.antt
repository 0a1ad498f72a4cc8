pub mod RectangleLemmas
