pub mod MemorySockets
