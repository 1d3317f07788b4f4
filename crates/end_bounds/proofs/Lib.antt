pub mod LawLemmas
pub mod LevelLemmas
pub mod MakingLemmas
pub mod PointLemmas
pub mod ScanLemmas
pub mod TableLemmas
