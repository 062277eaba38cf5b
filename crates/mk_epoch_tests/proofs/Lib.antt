mod ReachedCalls
mod Handing
