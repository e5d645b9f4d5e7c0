pub mod Refusals
pub mod Bytes
pub mod Decimals
pub mod Texts
pub mod Days
pub mod Money
