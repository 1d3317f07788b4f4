pub mod FieldLemmas
pub mod LineLemmas
pub mod OneItemLemmas
pub mod ScanLemmas
pub mod SomeItemLemmas
pub mod StreamLemmas
