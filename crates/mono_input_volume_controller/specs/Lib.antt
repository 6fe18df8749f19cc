pub mod SpeechLevel
pub mod MonoState
pub mod Mono
pub mod SameVolumes
pub mod MonoProcess
pub mod Config
pub mod Profile
pub mod SpeechError
