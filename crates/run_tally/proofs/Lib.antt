mod Adding
mod Telling
