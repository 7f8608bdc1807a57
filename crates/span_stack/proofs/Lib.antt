mod Common
mod worlds
mod hooks
