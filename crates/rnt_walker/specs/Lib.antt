-- What a walk over the resolution notification section answers; Stages is for the walk's own functions alone.
pub mod Places
pub mod Stages
