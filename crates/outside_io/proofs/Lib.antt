mod KeptBytes
mod Lookup
