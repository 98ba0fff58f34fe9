pub mod SymbolsBack
pub mod CheckLaws
pub mod PortSums
pub mod ApartLaws
pub mod AgainstLaws
pub mod StandardFacts
pub mod SentLaws
pub mod NoVoteLaws
