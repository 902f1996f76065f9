pub mod Flaws
pub mod Scripts
pub mod Rules
pub mod Spells
pub mod SpellsScripts
pub mod Laws
