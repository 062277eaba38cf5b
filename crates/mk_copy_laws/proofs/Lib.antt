mod Latest
mod LatestFound
