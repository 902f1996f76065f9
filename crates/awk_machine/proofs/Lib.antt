mod OneAnswer
mod OneRun
mod Bounds
mod Shutting
