mod Outside
mod Places
mod Windows
