pub mod PagingLemmas
