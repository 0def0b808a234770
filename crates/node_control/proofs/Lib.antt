pub mod Asking
mod Asked
mod AtSockets
mod Fields
mod Rounds
mod Routing
mod Rows
