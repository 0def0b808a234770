-- What only code and proofs use: no contract of a public function needs it.
pub mod Depths
pub mod KidOrder
pub mod Referring
pub mod RisingNames
pub mod Texts
pub mod TreeFalls
pub mod Changes
pub mod PathTexts
pub mod Trees
pub mod TableChanges
