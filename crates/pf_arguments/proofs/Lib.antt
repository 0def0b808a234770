pub mod Each
pub mod NeverUsage
