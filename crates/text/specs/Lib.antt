-- How numbers, bytes in hexadecimal and words stand in a line.
pub mod Decimal
pub mod Hex
pub mod Words
