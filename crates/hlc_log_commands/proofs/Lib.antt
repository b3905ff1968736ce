mod CauseGroups
mod DrawnLogs
mod FollowingFacts
mod GroupedAudits
mod LengthsTold
mod StoppedAudits
