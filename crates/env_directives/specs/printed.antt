-- What is printed.
pub mod Printed
pub mod StaticPrinted
