pub mod OneLength
