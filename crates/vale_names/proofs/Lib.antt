pub mod GroupLemmas
pub mod NameLemmas
pub mod OrderLemmas
pub mod PortRules
pub mod PortLemmas
pub mod SwitchLemmas
