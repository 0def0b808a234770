pub mod Settings
pub mod Files
pub mod KeyTexts
pub mod Clusters
pub mod StartsTexts
pub mod Next
pub mod Raising
pub mod StartsExamples
