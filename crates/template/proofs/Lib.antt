mod Places
mod Skipping
