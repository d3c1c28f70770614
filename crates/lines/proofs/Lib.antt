-- Laws of the digits in lines.
pub mod Decimals
