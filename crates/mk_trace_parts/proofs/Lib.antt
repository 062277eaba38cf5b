mod Tables
mod Written
