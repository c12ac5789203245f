pub mod Abandoned
pub mod Closing
pub mod Fates
pub mod Machine
pub mod MailRuns
pub mod Messages
pub mod Moves
pub mod Orders
pub mod Queues
pub mod Replies
mod MailWaits
mod MailNames
mod MailResponses
mod MailAsks
mod MailFreed
mod MailStalls
mod MailOnes
mod MailFew
