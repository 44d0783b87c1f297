-- What `body_places` answers; and apart from it what only private stages of the code answer.
pub mod Places
pub mod Stages
