pub mod DrawnScripts
mod ScriptStops
pub mod PlayedScripts
