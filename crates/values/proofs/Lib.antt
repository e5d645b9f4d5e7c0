pub mod Padding
pub mod PartLaws
pub mod FieldLaws
pub mod RecordLaws
pub mod MoneyLaws
