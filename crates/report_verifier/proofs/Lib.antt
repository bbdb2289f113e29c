pub mod AcceptedBlocks
mod ForgottenEntries
mod FoundBlocks
mod KeptWalks
pub mod OneCertificate
pub mod OneOutcome
mod Outcomes
pub mod Relations
pub mod SoundWalks
pub mod TrueLedgers
pub mod Walking
pub mod WholeFiles
