mod OnePlace
mod Opened
mod Shown
mod Freeing
mod Emptied
mod Elements
mod TableLaws
mod Sent
