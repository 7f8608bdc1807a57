pub mod SumLemmas
pub mod AddingUp
pub mod StartLemmas
pub mod StatusOrderLemmas
pub mod LastItemLemmas
