-- programs and the places in them
pub mod Lists
pub mod Plans
pub mod Setups
pub mod Drains
pub mod Positions
pub mod CounterLists
pub mod SoundSteps
pub mod ProgramSteps
-- locks
pub mod Holders
pub mod Walks
pub mod Walking
pub mod Ready
-- work on queues and hands
pub mod WorkPlaces
pub mod WorkSteps
pub mod WorkQueues
-- requests
pub mod Posting
pub mod Progressing
pub mod Requesting
pub mod RequestMoves
pub mod KeptPosts
pub mod ProgramPosts
-- a player
pub mod PlayerParts
pub mod PlayerSteps
pub mod Reserving
pub mod Rooms
pub mod Beginning
pub mod Leaving
-- one thread's history
pub mod Begun
pub mod OtherCallers
pub mod OwnSteps
pub mod OwnWork
pub mod OwnCommits
pub mod SerialStart
pub mod SerialSteps
pub mod Finished
-- whole orders
pub mod LawfulOrders
pub mod PlayedOrders
pub mod CommittedLines
pub mod CommittedPrograms
pub mod SoundDeeds
pub mod AllowedCommits
pub mod FollowedPrograms
pub mod PlacedHistories
pub mod AsleepHomes
