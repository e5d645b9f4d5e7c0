pub mod ByteLaws
pub mod DigitLaws
pub mod TextLaws
