pub mod ScriptLemmas
pub mod RangeLemmas
pub mod NumberLemmas
pub mod VerbLemmas
