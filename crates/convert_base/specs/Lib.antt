pub mod Markup
pub mod Numbers
