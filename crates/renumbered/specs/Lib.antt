pub mod Renumberings
