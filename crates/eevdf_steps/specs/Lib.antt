-- programs, the steps that they come to, and the places in them
pub mod Plan
pub mod MicroSteps
pub mod SoundSteps
pub mod Counters
pub mod Positions
pub mod Orders
-- callers, and the locks that they hold
pub mod Callers
pub mod Holders
-- work on queues and hands
pub mod Work
pub mod Places
pub mod Working
-- requests
pub mod Requests
pub mod PostLists
pub mod LeftLists
pub mod Openings
-- commits, and the history that they make
pub mod Commits
pub mod Journals
pub mod Recorded
pub mod UnderWay
pub mod Serial
-- a player
pub mod MicroState
pub mod Room
pub mod Players
pub mod Playing
-- whole orders
pub mod Plays
pub mod PlayedSteps
-- texts
pub mod Texts
