mod Flags
mod NumberTexts
mod Radix
mod Signed
mod Steps
