mod AreaCalls
mod AreaRules
mod AreasBehind
mod FittingAreas
mod MovingAreas
mod FilledPages
mod CommandsJoined
pub mod Done
mod Agreement
mod Carried
mod PageTags
mod PageSteps
mod PlacedRow
mod TaggedPages
mod Endings
mod NextHeaders
mod NewPages
mod Counts
mod Carries
pub mod StoppedLoads
mod WholeLoads
