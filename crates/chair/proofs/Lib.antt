mod Growing
mod Blanks
mod Rooms
mod Words
