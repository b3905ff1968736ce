-- What holds of any command line that clap reads.
pub mod Each
pub mod Walks
pub mod Stops
pub mod Options
pub mod Rules
pub mod Commands
pub mod Subcommands
