pub mod ListLemmas
pub mod ConditionLemmas
pub mod FieldLemmas
pub mod TargetLemmas
pub mod SettingsLemmas
pub mod MessageLemmas
