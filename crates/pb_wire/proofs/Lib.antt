pub mod Steps
pub mod VarintLoop
pub mod VarintLaws
pub mod ValueLaws
pub mod FieldLaws
pub mod CutLoop
pub mod CutLaws
